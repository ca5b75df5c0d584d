pub mod ByteOrders
pub mod Headers
