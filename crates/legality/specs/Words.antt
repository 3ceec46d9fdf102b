-- The word of each class of traffic. Assumes nothing.
use Rattle.std.specs.Prelude.{◌≡◌, ◌≢◌, ℕ, List, codes, Result, MatchResult}
use Rattle.legality.specs.declared.types.Class.{Class}
use Rattle.legality.specs.declared.types.Class.TheVariants.{Home, Outside}
use Rattle.legality.specs.declared.types.UnknownClass.{UnknownClass}

abbrev pub class_word : Class → List ℕ
class_word Home = codes "home"
class_word Outside = codes "outside"

-- the answer to a word is the class whose word it is; one that is no class's word is refused
abbrev pub Names : List ℕ → Result Class UnknownClass → Type 0
Names word r = MatchResult r (λ class. word ≡ class_word class) (λ _. (class : Class) → word ≢ class_word class)
