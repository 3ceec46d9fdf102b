-- What each fault of a script says. Assumes nothing.
use Rattle.std.specs.Prelude.{ℕ, List, ◌++◌, codes, decimal}
use Rattle.std.specs.declared.num.IntErrorKind.{IntErrorKind}
use Rattle.std.specs.declared.num.IntErrorKind.TheVariants.{Empty, InvalidDigit, PosOverflow, NegOverflow, Zero}
use Rattle.scripts.specs.declared.types.ScriptFault.{ScriptFault}
use Rattle.scripts.specs.declared.types.FaultKind.{FaultKind}
use Rattle.scripts.specs.declared.types.FaultKind.TheVariants.{NotText, NoRoster, BadRoster, UnknownWord, MissingWord, ExtraWord, NotANumber, NumberTooLarge, SizeTooLarge, NotAClass, OutOfMemory}

abbrev pub fault_words : FaultKind → List ℕ
fault_words NotText = codes "the line is not UTF-8 text"
fault_words NoRoster = codes "the script does not begin with a roster line"
fault_words BadRoster = codes "the roster is not 1 to 24 AS numbers, none of them 0, in increasing order"
fault_words UnknownWord = codes "the first word is no call"
fault_words MissingWord = codes "a word is missing"
fault_words ExtraWord = codes "there is a word too many"
fault_words NotANumber = codes "a word is no decimal number where a number belongs"
fault_words NumberTooLarge = codes "a number is above 4294967295"
fault_words SizeTooLarge = codes "a size is above 1000000"
fault_words NotAClass = codes "a word is neither home nor outside where a class belongs"
fault_words OutOfMemory = codes "there is no memory for more"

-- what a word is that was read as no number
abbrev pub number_fault : IntErrorKind → FaultKind
number_fault PosOverflow = NumberTooLarge
number_fault Empty = NotANumber
number_fault InvalidDigit = NotANumber
number_fault NegOverflow = NotANumber
number_fault Zero = NotANumber

-- a fault, behind its line
abbrev pub fault_text : ScriptFault → List ℕ
fault_text fault = codes "line " ++ (decimal fault.line ++ (codes ": " ++ fault_words fault.kind))
