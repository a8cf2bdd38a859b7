-- What is settled of a program before it is looked at: which kinds its externs have. The project's own.
use Rattle.std.specs.Prelude.{ℕ, min, max, ◌&&◌, ◌||◌, nat_le, Bool, true, if◌then◌else◌, List, [], ◌∷◌, map, codes, Option, Some, None}
use Rattle.std.specs.Str.{bytes_eq}
use Rattle.image_map.specs.declared.image.Image.{Image}
use Rattle.image_map.specs.declared.image.Extern.{Extern}
use Rattle.image_map.specs.declared.region.Kind.{Kind}
use Rattle.image_map.specs.declared.region.Kind.TheVariants as kind
use Rattle.image_map.specs.declared.region.Settings.{Settings}
use Rattle.command_words.specs.declared.line.ExternKind.{ExternKind}

-- -- The kinds of externs

-- the kind that the last part with a name gives, where some part has the name
unfoldable pub kind_after : List ℕ → Option Kind → List ExternKind → Option Kind
kind_after name found [] = found
kind_after name found (part ∷ parts) = kind_after name (if bytes_eq name part.name then Some part.kind else found) parts

abbrev pub kind_named : List ℕ → List ExternKind → Option Kind
kind_named name parts = kind_after name None parts

-- the kinds of externs that have one without being told
abbrev pub ends_program : List ℕ → Bool
ends_program name = bytes_eq name (codes "exit") || bytes_eq name (codes "_exit") || bytes_eq name (codes "abort") || bytes_eq name (codes "__stack_chk_fail")

abbrev pub reads_one_word : List ℕ → Bool
reads_one_word name = bytes_eq name (codes "free") || bytes_eq name (codes "putchar") || bytes_eq name (codes "srand")

abbrev pub reads_no_word : List ℕ → Bool
reads_no_word name = bytes_eq name (codes "getchar") || bytes_eq name (codes "rand")

abbrev pub reads_text : List ℕ → Bool
reads_text name = bytes_eq name (codes "puts") || bytes_eq name (codes "printf") || bytes_eq name (codes "perror") || bytes_eq name (codes "strlen") || bytes_eq name (codes "atoi")

abbrev pub reads_two_texts : List ℕ → Bool
reads_two_texts name = bytes_eq name (codes "strcmp") || bytes_eq name (codes "fputs")

unfoldable pub known_kind : List ℕ → Kind
known_kind name =
    (if ends_program name then kind.Stop else
    (if bytes_eq name (codes "malloc") then kind.Alloc else
    (if reads_one_word name then kind.Pure 1 else
    (if reads_no_word name then kind.Pure 0 else
    (if reads_text name then kind.Reader 1 else
    (if reads_two_texts name then kind.Reader 2 else
    (if bytes_eq name (codes "write") then kind.Reader 3 else
    (if bytes_eq name (codes "memset") then kind.Fills 1 3 else
    (if bytes_eq name (codes "read") then kind.Fills 2 3 else
    kind.Unknown)))))))))

-- the bounds of a kind's numbers, which the words keep
abbrev pub is_kind : Kind → Bool
is_kind (kind.Pure n) = nat_le n 8
is_kind (kind.Reader n) = nat_le n 8
is_kind kind.Alloc = true
is_kind kind.Stop = true
is_kind kind.Unknown = true
is_kind (kind.Fills buffer len) = nat_le 1 buffer && nat_le buffer 8 && nat_le 1 len && nat_le len 8

abbrev pub bounded : Kind → Kind
bounded k = if is_kind k then k else kind.Unknown

abbrev pub kind_or_known : Option Kind → List ℕ → Kind
kind_or_known None name = known_kind name
kind_or_known (Some k) name = bounded k

abbrev pub kind_of : List ExternKind → Extern → Kind
kind_of parts e = kind_or_known (kind_named e.name parts) e.name

-- -- Settings

-- from 1 to 8 rounds, which the words keep
abbrev pub bounded_rounds : ℕ → ℕ
bounded_rounds n = min (max n 1) 8

-- of an image that is entered at a place: the greatest number of rounds, and the kinds of its externs
abbrev pub settings_of : Image → ℕ → ℕ → List ExternKind → Settings
settings_of image place rounds parts = record { entry = place; rounds = bounded_rounds rounds; kinds = map (kind_of parts) image.externs }
