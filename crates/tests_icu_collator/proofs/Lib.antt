pub mod NumberExamples
