-- A small machine with one program and its map, for which all premises hold: a call, a store and a load in a frame, a branch
-- round the load, and a return. The project's own.
--
--     10 call 20        20 store CL below the return slot    22 load EAX from there
--     11 stop with EAX  21 jump to 23 if ZF is set           23 return
--
-- Each instruction has one byte, and a return slot has four, of which the lowest holds the place after the call.
use Rattle.std.specs.Prelude.{◌≡◌, ◌⊎◌, ℕ, ℤ, pos, negsuc, ◌+◌, ◌-◌, ◌%◌, ◌<◌, ◌==◌, ◌&&◌, ◌||◌, nat_le, nat_lt, Bool, true, false, if◌then◌else◌, List, [], ◌∷◌, map, Option, Some, None, Contains}
use Rattle.image_map.specs.declared.region.Activation.{Activation}
use Rattle.image_map.specs.declared.region.RegionId.{RegionId}
use Rattle.image_map.specs.declared.region.RegionId.TheVariants.{Global, Frame, OldFrame, Heap, OldHeap}
use Rattle.flow_graph.specs.declared.graph.FlowNode.{FlowNode}
use Rattle.ia32_semantics.specs.State.{State, Location, InRegister, InFlag, AtByte, put}
use Rattle.ia32_semantics.specs.Machine.{Machine, Occurrence}
use Rattle.ia32_semantics.specs.Runs.{IsRun}
use Rattle.ia32_semantics.specs.Dependence.{DataDependence, ControlDependence}
use Rattle.call_strings.specs.declared.context.Node.{Node}
use Rattle.slice_soundness.specs.Maps.{Map}
use Rattle.slice_soundness.specs.Located.{Division, LiesInCell, Part, OfCore, OfRegion, Accesses}
use Rattle.slice_soundness.specs.Tables.{Table, value_in, number_in}

-- -- The machine

pub data Act : Type 0 where
  calls : Act
  stops : Act
  stores : Act
  chooses : Act
  loads : Act
  returns : Act

abbrev pub address_of : Act → ℕ
address_of calls = 10
address_of stops = 11
address_of stores = 20
address_of chooses = 21
address_of loads = 22
address_of returns = 23

-- the entry's return slot, and the callee's below it
abbrev pub entry_base : ℕ
entry_base = 0xBFF0000C

abbrev pub inner_base : ℕ
inner_base = 0xBFF00008

-- the byte below the callee's
abbrev pub stored_at : ℕ
stored_at = 0xBFF00007

abbrev pub entry_activation : Activation
entry_activation = record { site = 0; callee = 10; base = entry_base }

abbrev pub inner_activation : Activation
inner_activation = record { site = 10; callee = 20; base = inner_base }

abbrev pub byte_or_zero : Option ℕ → ℕ
byte_or_zero None = 0
byte_or_zero (Some byte) = byte

abbrev pub all_but_newest : List Activation → List Activation
all_but_newest [] = []
all_but_newest (newest ∷ others) = others

-- register 4 is ESP, register 0 is EAX, register 1 ECX, and flag 2 is ZF
abbrev pub done : Act → State → State
done calls s = record s { eip = 20; registers = put s.registers 4 (s.registers 4 - 4); memory = put s.memory (s.registers 4 - 4) (Some 11); activations = inner_activation ∷ s.activations }
done stops s = s
done stores s = record s { eip = 21; memory = put s.memory (s.registers 4 - 1) (Some (s.registers 1 % 256)) }
done chooses s = record s { eip = if s.flags 2 then 23 else 22 }
done loads s = record s { eip = 23; registers = put s.registers 0 (byte_or_zero (s.memory (s.registers 4 - 1))) }
done returns s = record s { eip = byte_or_zero (s.memory (s.registers 4)); registers = put s.registers 4 (s.registers 4 + 4); activations = all_but_newest s.activations }

pub record Happens (o : Occurrence Act) : Type 0 where
  pub at : o.before.eip ≡ address_of o.act
  pub after : o.after ≡ done o.act o.before

pub record IsStart (s : State) : Type 0 where
  pub at : s.eip ≡ 10
  pub activations : s.activations ≡ entry_activation ∷ []
  pub esp : s.registers 4 ≡ entry_base
  pub slot : s.slot ≡ entry_base

abbrev pub is_last : Act → Bool
is_last stops = true
is_last _ = false

abbrev pub is_branch : Act → Bool
is_branch chooses = true
is_branch _ = false

abbrev pub is_register : ℕ → Location → Bool
is_register r (InRegister n) = n == r
is_register r (InFlag n) = false
is_register r (AtByte a) = false

abbrev pub is_flag : ℕ → Location → Bool
is_flag f (InRegister n) = false
is_flag f (InFlag n) = n == f
is_flag f (AtByte a) = false

abbrev pub is_byte : (ℕ → Bool) → Location → Bool
is_byte test (InRegister n) = false
is_byte test (InFlag n) = false
is_byte test (AtByte a) = test a

-- four bytes from an address on
abbrev pub is_in_word : ℕ → ℕ → Bool
is_in_word low a = nat_le low a && nat_lt a (low + 4)

-- by the value of ESP before
abbrev pub reads_of : Act → ℕ → Location → Bool
reads_of calls esp l = is_register 4 l
reads_of stops esp l = is_register 0 l
reads_of stores esp l = is_register 1 l || is_register 4 l
reads_of chooses esp l = is_flag 2 l
reads_of loads esp l = is_register 4 l || is_byte (λ a. a == esp - 1) l
reads_of returns esp l = is_register 4 l || is_byte (is_in_word esp) l

abbrev pub writes_of : Act → ℕ → Location → Bool
writes_of calls esp l = is_register 4 l || is_byte (is_in_word (esp - 4)) l
writes_of stops esp l = false
writes_of stores esp l = is_byte (λ a. a == esp - 1) l
writes_of chooses esp l = false
writes_of loads esp l = is_register 0 l
writes_of returns esp l = is_register 4 l

abbrev pub forgets_of : Act → ℕ → Location → Bool
forgets_of calls esp l = is_byte (λ a. nat_lt a (esp - 4)) l
forgets_of returns esp l = is_byte (λ a. nat_lt a (esp + 4)) l
forgets_of _ esp l = false

abbrev pub machine : Machine
machine =
    record {
      Act = Act;
      entry = 10;
      IsStart = IsStart;
      Happens = Happens;
      completes = λ o. is_last o.act;
      is_branch = is_branch;
      reads = λ o l. reads_of o.act (o.before.registers 4) l;
      writes = λ o l. writes_of o.act (o.before.registers 4) l;
      forgets = λ o l. forgets_of o.act (o.before.registers 4) l;
      IsPlaceAfter = λ site place. place ≡ site + 1;
    }

-- -- The map: abstract states tell which procedure runs, and so where ESP points

pub data Known : Type 0 where
  outside : Known
  inside : Known

abbrev pub activations_of : Known → List Activation
activations_of outside = entry_activation ∷ []
activations_of inside = inner_activation ∷ entry_activation ∷ []

abbrev pub esp_of : Known → ℕ
esp_of outside = entry_base
esp_of inside = inner_base

abbrev pub StandsFor : Known → State → Type 0
StandsFor known s = (s.activations ≡ activations_of known) × (s.registers 4 ≡ esp_of known)

-- the stack lies as it should, and the slot of the call holds the place after it
pub record IsWhole (s : State) : Type 0 where
  pub slot : s.slot ≡ entry_base
  pub holds : (s.activations ≡ activations_of outside) ⊎ ((s.activations ≡ activations_of inside) × (s.memory inner_base ≡ Some 11))

abbrev pub procedure_of : Known → ℕ
procedure_of outside = 10
procedure_of inside = 20

abbrev pub sites_in : Known → List ℕ
sites_in outside = []
sites_in inside = 10 ∷ []

abbrev pub node_in : Known → ℕ → Node
node_in known at = record { context = record { proc = procedure_of known; sites = sites_in known }; at = at }

-- in order of their addresses
unfoldable pub rows : List (Node × Known)
rows =
    (node_in outside 10, outside)
    ∷ (node_in outside 11, outside)
    ∷ (node_in inside 20, inside)
    ∷ (node_in inside 21, inside)
    ∷ (node_in inside 22, inside)
    ∷ (node_in inside 23, inside)
    ∷ []

-- the successors of the node at an address
unfoldable pub successors_at : ℕ → List (Node × Known)
successors_at at =
    if at == 10 then (node_in inside 20, inside) ∷ []
    else (if at == 20 then (node_in inside 21, inside) ∷ []
    else (if at == 21 then (node_in inside 22, inside) ∷ (node_in inside 23, inside) ∷ []
    else (if at == 22 then (node_in inside 23, inside) ∷ []
    else (if at == 23 then (node_in outside 11, outside) ∷ []
    else []))))

pub record IsSuccessor (from to : Node) (next : Known) : Type 0 where
  pub known : Known
  pub is_node : value_in rows from ≡ Some known
  pub among : Contains (successors_at from.at) (to, next)

-- -- Its cells, by offsets from the return slots

-- of the callee's frame the return slot and the byte below it
unfoldable pub callee_cell : ℤ → Option ℕ
callee_cell (pos k) = if nat_lt k 4 then Some 16 else None
callee_cell (negsuc k) = if k == 0 then Some 15 else None

-- of the entry's frame the return slot and the word below it, over which the callee's return slot comes to lie
unfoldable pub entry_cell : ℤ → Option ℕ
entry_cell (pos k) = if nat_lt k 4 then Some 14 else None
entry_cell (negsuc k) = if nat_lt k 4 then Some 17 else None

unfoldable pub cell_of : RegionId → ℤ → Option ℕ
cell_of Global offset = None
cell_of (Frame procedure) offset = if procedure == 20 then callee_cell offset else (if procedure == 10 then entry_cell offset else None)
cell_of (OldFrame procedure) offset = None
cell_of (Heap key) offset = None
cell_of (OldHeap key) offset = None

abbrev pub division : Division
division =
    record {
      key = λ x. 0;
      IsDivided = λ region offset. (place : ℕ) × (cell_of region offset ≡ Some place);
      IsInCell = λ region offset place. cell_of region offset ≡ Some place;
    }

-- a byte of the callee's return slot, and the byte below it
abbrev pub IsSlotByte : Part → Type 0
IsSlotByte part = (k : ℕ) × (k < 4) × (part ≡ OfRegion (Frame 20) (pos k))

abbrev pub IsStoredByte : Part → Type 0
IsStoredByte part = part ≡ OfRegion (Frame 20) (negsuc 0)

abbrev pub ReadsPart : Act → Part → Type 0
ReadsPart calls part = part ≡ OfCore 4
ReadsPart stops part = part ≡ OfCore 0
ReadsPart stores part = (part ≡ OfCore 1) ⊎ (part ≡ OfCore 4)
ReadsPart chooses part = part ≡ OfCore 10
ReadsPart loads part = (part ≡ OfCore 4) ⊎ IsStoredByte part
ReadsPart returns part = (part ≡ OfCore 4) ⊎ IsSlotByte part

abbrev pub WritesPart : Act → Part → Type 0
WritesPart calls part = (part ≡ OfCore 4) ⊎ IsSlotByte part
WritesPart stops part = ⊥
WritesPart stores part = IsStoredByte part
WritesPart chooses part = ⊥
WritesPart loads part = part ≡ OfCore 0
WritesPart returns part = part ≡ OfCore 4

-- what is said of the act at a node
abbrev pub AtNode : (Act → Part → Type 0) → Node → Part → Type 0
AtNode P n part = (act : Act) × (n.at ≡ address_of act) × P act part

-- it writes always what it may write
abbrev pub accesses : Accesses
accesses = record { Reads = AtNode ReadsPart; Writes = AtNode WritesPart; Always = AtNode WritesPart }

-- -- Its graph

unfoldable pub uses_at : ℕ → List ℕ
uses_at at =
    if at == 10 then 4 ∷ []
    else (if at == 11 then 0 ∷ []
    else (if at == 20 then 1 ∷ 4 ∷ []
    else (if at == 21 then 10 ∷ []
    else (if at == 22 then 4 ∷ 15 ∷ []
    else (if at == 23 then 4 ∷ 16 ∷ []
    else [])))))

unfoldable pub defines_at : ℕ → List ℕ
defines_at at =
    if at == 10 then 4 ∷ 16 ∷ []
    else (if at == 20 then 15 ∷ []
    else (if at == 22 then 0 ∷ []
    else (if at == 23 then 4 ∷ []
    else [])))

abbrev pub flow : Node → Known → FlowNode
flow n known =
    record {
      at = n.at;
      next = map (λ comes. number_in rows comes.0) (successors_at n.at);
      may_use = uses_at n.at;
      may_def = defines_at n.at;
      must_def = defines_at n.at;
      branch = n.at == 21;
      end = n.at == 11;
    }

abbrev pub same_known : Known → Known → Bool
same_known outside outside = true
same_known outside inside = false
same_known inside outside = false
same_known inside inside = true

abbrev pub example : Map
example =
    record {
      Abs = Known;
      depth = 1;
      initial = outside;
      value = value_in rows;
      is_warned = λ n. false;
      IsSuccessor = IsSuccessor;
      IsTarget = λ n procedure. (n ≡ node_in outside 10) × (procedure ≡ 20);
      IsCanonical = λ known. Unit {0};
      Below = λ one other. one ≡ other;
      IsWhole = IsWhole;
      StandsFor = StandsFor;
      HasCell = LiesInCell division;
      graph = map (λ row. flow row.0 row.1) rows;
      number = number_in rows;
    }

abbrev pub table : Table example
table = record { rows = rows; successors = λ n known. successors_at n.at; is_below = same_known; flow = flow }

-- -- A run

abbrev pub start : Bool → State
start zero_flag =
    record {
      registers = λ n. if n == 4 then entry_base else n;
      flags = λ n. n == 2 && zero_flag;
      eip = 10;
      memory = λ a. None;
      activations = entry_activation ∷ [];
      blocks = [];
      allocs = [];
      slot = entry_base;
    }

abbrev pub made : Act → State → Occurrence Act
made act s = record { before = s; act = act; choices = []; after = done act s }

-- these acts one after another
abbrev pub run_of : List Act → State → List (Occurrence Act)
run_of [] s = []
run_of (act ∷ rest) s = made act s ∷ run_of rest (done act s)

-- with ZF clear the load comes
abbrev pub run : List (Occurrence Act)
run = run_of (calls ∷ stores ∷ chooses ∷ loads ∷ returns ∷ stops ∷ []) (start false)

abbrev pub other_run : List (Occurrence Act)
other_run = run_of (calls ∷ stores ∷ chooses ∷ returns ∷ stops ∷ []) (start true)

-- the addresses on which the last instruction depends, ESP left out
abbrev pub listed : List ℕ
listed = 11 ∷ 20 ∷ 21 ∷ 22 ∷ []

-- The run is one, EAX as it is at the end was loaded, the loaded byte was stored, and the load came because of the branch.
pub record HasDependences : Type 0 where
  pub is_run : IsRun machine run
  pub end_of_load : DataDependence machine true run (InRegister 0) 5 3
  pub load_of_store : DataDependence machine true run (AtByte stored_at) 3 1
  pub load_of_branch : ControlDependence machine run 3 2
