-- What the replies of sessions tell of runs. The laws are the project's own.
use Rattle.std.specs.Prelude.{◌≡◌, ℕ, Bool, [], length}
use Rattle.image_map.specs.CallModel.{AreSettings}
use Rattle.image_map.specs.Whole.{IsImage}
use Rattle.ia32_semantics.specs.Dependence.{ListsDependences}
use Rattle.ia32_semantics.specs.Ia32.{machine}
use Rattle.service.specs.declared.session.Reply.{Reply}
use Rattle.service.specs.declared.session.Session.{Session}
use Rattle.service.specs.declared.shop.Shop.{Shop}
use Rattle.service.specs.Answers.{Slices}
use Rattle.service.specs.Replies.{ListsSlice}

-- Where the round that a session pinned for its reply has no warning, the listed addresses are those of whatever an occurrence at the
-- criterion depends on, in every run.
abbrev pub QuietRepliesListDependences : Type 0
QuietRepliesListDependences =
    (shop : Shop) (old new : Session) (at : ℕ) (skip_sp : Bool) (reply : Reply) → IsImage shop.image → AreSettings (length shop.image.externs) shop.settings
    → (s : Slices shop old new at skip_sp reply) → s.pinned.warnings.items ≡ []
    → (listed : ListsSlice s.pinned at skip_sp new.page) → ListsDependences (machine shop.image shop.settings) skip_sp at listed.addresses
