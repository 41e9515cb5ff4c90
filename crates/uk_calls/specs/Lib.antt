pub mod UkCardinals
