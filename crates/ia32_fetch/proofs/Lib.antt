pub mod FetchLaws
pub mod OneBegins
