pub mod ScheduleRuns
