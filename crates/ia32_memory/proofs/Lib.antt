pub mod ReadLaws
pub mod ShapeLaws
pub mod EffectLaws
pub mod WrittenLaws
pub mod StartLaws
mod ReadLemmas
mod WriteLemmas
mod ClearLemmas
mod MakeLemmas
pub mod StartLemmas
mod ElementLemmas
mod SpanLemmas
