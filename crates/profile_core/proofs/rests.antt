pub mod RestExchange
pub mod SlottedRestLemmas
pub mod SlottedBehind
