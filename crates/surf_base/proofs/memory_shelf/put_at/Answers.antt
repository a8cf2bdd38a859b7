use Rattle.std.proofs.Common.{refl}
use Rattle.surf_base.proofs.FileLists.{bytes_at-put, bytes_at-put_other, faults_at-set}
use Rattle.surf_base.proofs.memory_shelf.put_at.Goals as goal

pub returns-clause-put : goal.returns-clause-put
returns-clause-put c name stands =
    bytes_at-put c.args.files.now c.args.at _ c.index-files-at.result refl c.requires name stands

pub returns-clause-others : goal.returns-clause-others
returns-clause-others c name other stands differs =
    bytes_at-put_other c.args.files.now c.args.at _ c.index-files-at.result refl c.requires name other stands differs

pub returns-clause-counts : goal.returns-clause-counts
returns-clause-counts c name unknown =
    faults_at-set c.args.files.now c.args.at _ c.index-files-at.result refl c.requires name unknown refl
