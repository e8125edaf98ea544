pub mod Printing
pub mod BuffersPrinted
