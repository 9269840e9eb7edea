pub mod Services
pub mod Store
pub mod KeyRequests
