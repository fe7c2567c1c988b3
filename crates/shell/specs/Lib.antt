-- What can be said of work that reads files and writes a sheet, and of the files it is started on.
pub mod Arguments
pub mod Handed
