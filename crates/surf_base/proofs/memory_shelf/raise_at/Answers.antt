use Rattle.std.proofs.Common.{refl, arith}
use Rattle.surf_base.proofs.FileLists.{bytes_at-set, faults_at-raised, faults_at-set_other, rose-set}
use Rattle.surf_base.proofs.memory_shelf.raise_at.Goals as goal

pub returns-clause-files : goal.returns-clause-files
returns-clause-files c name = bytes_at-set c.args.files.now c.args.at _ c.index-files-at.result refl c.requires name refl

pub returns-clause-counts : goal.returns-clause-counts
returns-clause-counts c name unknown =
    faults_at-raised c.args.files.now c.args.at _ c.index-files-at.result refl c.requires name unknown (omega arith)

pub returns-clause-rose : goal.returns-clause-rose
returns-clause-rose c name unknown stands =
    rose-set c.args.files.now c.args.at _ c.index-files-at.result refl c.requires name unknown stands (omega arith)

pub returns-clause-others : goal.returns-clause-others
returns-clause-others c name other unknown stands differs =
    faults_at-set_other c.args.files.now c.args.at _ c.index-files-at.result refl c.requires name other unknown stands differs
