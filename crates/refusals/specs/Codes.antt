-- The number of each refusal, as the rules and C have it. 0 is no refusal.
-- Assumes nothing.
use Rattle.std.specs.Prelude.{ℕ, Result, Ok, Err}
use Rattle.refusals.specs.declared.Refusal.{Refusal}
use Rattle.refusals.specs.declared.Refusal.TheVariants.{BadShape, BadTable, TooManyRoots, StackTooLong, ZeroBytes, NoSuchBlock, NotAHead, NoSuchWord, NoRoom, OutputTooShort, ImageTruncated, BadCount, TrailingBytes, RootsTooShort, NoLog, NoEntry}

abbrev pub code : Refusal → ℕ
code BadShape = 1
code BadTable = 2
code TooManyRoots = 3
code StackTooLong = 4
code ZeroBytes = 5
code NoSuchBlock = 6
code NotAHead = 7
code NoSuchWord = 8
code NoRoom = 9
code OutputTooShort = 10
code ImageTruncated = 14
code BadCount = 15
code TrailingBytes = 16
code RootsTooShort = 17
code NoLog = 18
code NoEntry = 19

-- the number of an answer: that of its refusal, or 0
abbrev pub refused_by : {A : Type 0} → Result A Refusal → ℕ
refused_by (Ok _) = 0
refused_by (Err r) = code r
