-- The kinds of entries.
use Rattle.history_entry.specs.declared.entry.Entry.{Entry}
use Rattle.history_entry.specs.declared.entry.Entry.TheVariants.{Opened, Warm, Hop, Order, NavEnd, Said, Crash, Commit, Local, Head, Piece, End, Exit}
use Rattle.history_entry.specs.declared.entry.EntryKind.{EntryKind}
use Rattle.history_entry.specs.declared.entry.EntryKind.TheVariants.{Opened as IsOpened, Warm as IsWarm, Hop as IsHop, Order as IsOrder, NavEnd as IsNavEnd, Said as IsSaid, Crash as IsCrash, Commit as IsCommit, Local as IsLocal, Head as IsHead, Piece as IsPiece, End as IsEnd, Exit as IsExit}

-- the kind of an entry
abbrev pub kind_of : Entry → EntryKind
kind_of (Opened k) = IsOpened
kind_of (Warm p) = IsWarm
kind_of (Hop of url) = IsHop
kind_of (Order n p site origin url) = IsOrder
kind_of (NavEnd n rule) = IsNavEnd
kind_of (Said p d k message reply) = IsSaid
kind_of (Crash p) = IsCrash
kind_of (Commit p n origin url reply) = IsCommit
kind_of (Local p d k what) = IsLocal
kind_of (Head r rule) = IsHead
kind_of (Piece r i bytes) = IsPiece
kind_of (End r how) = IsEnd
kind_of (Exit p) = IsExit
