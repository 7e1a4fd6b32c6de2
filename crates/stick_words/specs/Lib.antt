pub mod WordViews
