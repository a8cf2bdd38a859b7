-- What of an abstract state tells where addresses lie: who owns the bytes of the stack and of the heap. The project's own.
use Rattle.std.specs.Prelude.{ℕ, true, List, [], None}
use Rattle.abs_semantics.specs.declared.parts.Known.{Known}
use Rattle.abs_semantics.specs.declared.parts.Link.{Link}
use Rattle.abs_semantics.specs.States.{AbsState}
use Rattle.vset.specs.Values.{Top}
use Rattle.abs_resolve.specs.declared.owners.Owners.{Owners}

-- the abstract state that knows no more than this
abbrev pub owned : List ℕ → List ℕ → List Link → List Known → ℕ → AbsState
owned live older links blocks root =
    record {
      registers = λ n. Top;
      flags = λ n b. true;
      cells = [];
      live = live;
      older = older;
      links = links;
      aligns = [];
      blocks = blocks;
      fact = None;
      root = root;
    }

-- the abstract state that knows no more than these owners
abbrev pub state_of : Owners → AbsState
state_of o = owned o.live.now o.older.now o.links.now o.blocks.now o.root

-- what an abstract state says of owners
abbrev pub owners_of : AbsState → AbsState
owners_of a = owned a.live a.older a.links a.blocks a.root
