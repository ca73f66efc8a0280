pub mod OnCalls
pub mod OnTables
pub mod OneAnswer
pub mod OnAnswers
