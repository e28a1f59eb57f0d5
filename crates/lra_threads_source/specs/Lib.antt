-- In the order in which they are to be read: what is written of threads, the program's data for it, what is listed of
-- them, what a source of several threads must get, and what is known of it between.
pub mod ThreadsText
pub mod ThreadsView
pub mod Listed
pub mod ThreadsReports
pub mod Stages
-- The crates below
pub mod Crates
