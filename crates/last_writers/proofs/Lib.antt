pub mod CutLemmas
pub mod RisingLemmas
pub mod StepLemmas
