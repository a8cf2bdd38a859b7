use Rattle.std.proofs.Common.{refl}
use Rattle.surf_base.proofs.FileLists.{puts_new_file}
use Rattle.surf_base.proofs.memory_shelf.MemoryShelf.add.Goals as goal

pub returns-in_ok-push-in-None-clause-added : goal.returns-in_ok-push-in-None-clause-added
returns-in_ok-push-in-None-clause-added c =
    let absent = rw (c.deref.ensures.value, c.as_str.ensures.value) at c.in-None.ensures in
    puts_new_file c.args.self.now _ _ absent refl c.in_ok-push-in-None.ensures.items refl refl
