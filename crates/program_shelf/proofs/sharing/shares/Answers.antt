use Rattle.program_shelf.proofs.ShareLemmas.{parts_are_shares}
use Rattle.program_shelf.proofs.sharing.shares.Goals as goal

pub returns : goal.returns
returns c = rw (c.share.ensures, c.share-2.ensures, c.share-3.ensures, c.share-4.ensures) (record { shares = parts_are_shares c.args.refiners c.args.programs c.requires.refiners c.requires.some c.requires.few })
