pub mod WrittenRows
pub mod ReadyValues
pub mod OwnAccesses
pub mod RoundsOf
pub mod RoundsHold
-- What threads report and write.
pub mod JoinedIntervals
pub mod Allowed
pub mod NotesWritten
-- Runs of trees among others.
pub mod NamedWrites
pub mod ChecksUnder
pub mod Held
pub mod InsideHolds
-- All of it, for the threads beside each other.
pub mod HoldBeside
-- The crates below
pub mod Crates
