pub mod internal
pub mod CsimText
pub mod DinText
pub mod Execute
pub mod LogText
