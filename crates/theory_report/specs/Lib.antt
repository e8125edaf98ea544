pub mod ReportCases
