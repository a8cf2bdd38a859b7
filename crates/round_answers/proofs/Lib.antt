pub mod AskedLemmas
pub mod NodeLemmas
pub mod TellLemmas
pub mod RisingLemmas
pub mod HopLemmas
pub mod FaceLemmas
pub mod ReplyLemmas
