pub mod Outlet
pub mod Laws
