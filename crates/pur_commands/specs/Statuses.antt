-- How a run ends: its status as a number, the line on standard error, and the word that a check writes.
use Rattle.std.specs.Prelude.{ℕ, ◌≡◌, List, [], ◌∷◌, ◌++◌, take, Option, codes}
use Rattle.pur_io.specs.Taken.{taken_more}
use Rattle.pur_commands.specs.declared.status.Status.{Status}
use Rattle.pur_commands.specs.declared.status.Status.TheVariants.{Done, OutOfMemory, BadCommandLine, SpellingFault, ValidityFault, SettingsRefused, InputTooLong, CannotRead, CannotWrite}

-- the status as the number that the program ends with
abbrev pub code_of : Status → ℕ
code_of Done = 0
code_of OutOfMemory = 1
code_of BadCommandLine = 2
code_of SpellingFault = 3
code_of ValidityFault = 4
code_of SettingsRefused = 5
code_of InputTooLong = 6
code_of CannotRead = 7
code_of CannotWrite = 8

-- the line on standard error, without its line feed: none where the text was written whole
abbrev pub words_of : Status → List ℕ
words_of Done = []
words_of OutOfMemory = codes "purify: out of memory"
words_of BadCommandLine = codes "purify: bad command line"
words_of SpellingFault = []
words_of ValidityFault = []
words_of SettingsRefused = codes "purify: settings refused"
words_of InputTooLong = codes "purify: input too long"
words_of CannotRead = codes "purify: cannot read"
words_of CannotWrite = codes "purify: cannot write"

-- the character that ends a line
abbrev pub line_feed : ℕ
line_feed = 10

-- the line on standard error, with its line feed
abbrev pub line_of : Status → List ℕ
line_of Done = []
line_of SpellingFault = []
line_of ValidityFault = []
line_of s = words_of s ++ (line_feed ∷ [])

-- what a check writes that finds so, with a line feed; other statuses have no word
abbrev pub report_of : Status → List ℕ
report_of Done = codes "good" ++ (line_feed ∷ [])
report_of SpellingFault = codes "spelling" ++ (line_feed ∷ [])
report_of ValidityFault = codes "validity" ++ (line_feed ∷ [])
report_of other = []

-- a stream took a front of the line of the status with this number
pub record TookLine (before after : Option (List ℕ)) (code : ℕ) : Type 0 where
  pub status : Status
  pub code_is : code ≡ code_of status
  pub count : ℕ
  pub taken : after ≡ taken_more before (take count (line_of status))

-- a stream took the whole line of the status with this number
pub record TookWholeLine (before after : Option (List ℕ)) (code : ℕ) : Type 0 where
  pub status : Status
  pub code_is : code ≡ code_of status
  pub taken : after ≡ taken_more before (line_of status)

-- the statuses of an answer: a run with one of them has written its text whole
abbrev pub IsSettled : Status → Type 0
IsSettled Done = Unit {0}
IsSettled SpellingFault = Unit {0}
IsSettled ValidityFault = Unit {0}
IsSettled other = ⊥

-- the statuses with which a command may stop before its work
abbrev pub IsEarly : Status → Type 0
IsEarly OutOfMemory = Unit {0}
IsEarly SettingsRefused = Unit {0}
IsEarly InputTooLong = Unit {0}
IsEarly CannotRead = Unit {0}
IsEarly other = ⊥
