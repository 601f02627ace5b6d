pub mod Answered
pub mod LineParts
pub mod LinesPrinted
pub mod UndoneLemmas
pub mod Dues
pub mod RunLemmas
pub mod Found
pub mod LogLemmas
pub mod LogEventLemmas
pub mod WindowLemmas
mod ShowLemmas
pub mod ShownLemmas
pub mod CountLemmas
