pub mod TraceRecords
pub mod FilledDiary
