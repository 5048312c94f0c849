-- The number of each refusal.
use Rattle.std.specs.Prelude.{ℕ}
use Rattle.refusals.specs.declared.refusal.Refusal.{Refusal}
use Rattle.refusals.specs.declared.refusal.Refusal.TheVariants.{Scratch, List, Length, Order, Field, Unlawful, Twice, Entries, Descriptors, Undefined, TooNarrow, Zero, InUse, NotSupported, NotAvailable, Unknown, WrongState, ModeUnavailable}

abbrev pub number : Refusal → ℕ
number Scratch = 1
number List = 2
number Length = 3
number Order = 4
number Field = 5
number Unlawful = 6
number Twice = 7
number Entries = 8
number Descriptors = 9
number Undefined = 10
number TooNarrow = 11
number Zero = 12
number InUse = 13
number NotSupported = 14
number (NotAvailable rows) = 15
number Unknown = 16
number WrongState = 17
number ModeUnavailable = 18
