pub mod Operations
pub mod Spelling
pub mod TuplesView
pub mod OperationView
pub mod OperationsCode
pub mod Reading
pub mod Results
pub mod Laws
