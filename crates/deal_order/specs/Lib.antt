pub mod DealOrder
