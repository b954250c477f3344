pub mod KeptOrders
pub mod Keys
pub mod Listing
pub mod Lists
pub mod Orders
