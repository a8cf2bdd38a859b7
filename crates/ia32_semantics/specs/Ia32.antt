-- The machine of the 32-bit Intel architecture that runs an image under the call model.
use Rattle.image_map.specs.declared.image.Image.{Image}
use Rattle.image_map.specs.declared.region.Settings.{Settings}
use Rattle.ia32_semantics.specs.Machine.{Machine}
use Rattle.ia32_semantics.specs.Step.{Act, Happens, completes, is_branch, reads, writes, forgets, IsPlaceAfter}
use Rattle.ia32_semantics.specs.CallModel.{IsStart}

abbrev pub machine : Image → Settings → Machine
machine image settings =
    record {
      Act = Act;
      entry = settings.entry;
      IsStart = IsStart image settings;
      Happens = Happens image settings;
      completes = completes;
      is_branch = is_branch;
      reads = reads;
      writes = writes;
      forgets = forgets;
      IsPlaceAfter = IsPlaceAfter image;
    }
