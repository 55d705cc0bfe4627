mod ProductsAreShifts
pub mod ValuesStayInRange
