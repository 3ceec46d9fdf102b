-- What is printed of calls and their answers, byte by byte. Assumes nothing.
use Rattle.std.specs.Prelude.{ℕ, ◌+◌, List, ◌∷◌, ◌++◌, take, Some, None, Ok, Err, vec_items, codes, decimal, Option, Result}
use Rattle.std.specs.List.{flat_map, zip}
use Rattle.board.specs.declared.types.BoardRefusal.{BoardRefusal}
use Rattle.board.specs.Numbers.{board_number}
use Rattle.board.specs.Words.{board_words}
use Rattle.table.specs.declared.types.RouteRefusal.{RouteRefusal}
use Rattle.table.specs.Numbers.{route_number}
use Rattle.table.specs.Words.{route_words}
use Rattle.runs.specs.declared.types.Reply.{Reply}
use Rattle.runs.specs.declared.types.Reply.TheVariants.{Edited, Settled, Hopped, Sent}

-- a refusal by its number and its words
abbrev pub refusal_text : ℕ → List ℕ → List ℕ
refusal_text number words = codes "refused " ++ (decimal number ++ (codes ", " ++ words))

abbrev pub edited_text : Result (Unit {0}) BoardRefusal → List ℕ
edited_text (Ok x) = codes "done"
edited_text (Err x) = refusal_text (board_number x) (board_words x)

abbrev pub settled_text : Result ℕ RouteRefusal → List ℕ
settled_text (Ok count) = decimal count ++ codes " entries filled"
settled_text (Err x) = refusal_text (route_number x) (route_words x)

abbrev pub hopped_text : Result (Option ℕ) RouteRefusal → List ℕ
hopped_text (Ok None) = codes "at the destination"
hopped_text (Ok (Some next)) = codes "next AS " ++ decimal next
hopped_text (Err x) = refusal_text (route_number x) (route_words x)

-- an AS of a path, after a space
abbrev pub spaced : ℕ → List ℕ
spaced number = 32 ∷ decimal number

-- a path by its delay and its links; its ASes stand at the front of the list
abbrev pub path_text : ℕ → ℕ → List ℕ → List ℕ
path_text delay links list = codes "delay " ++ (decimal delay ++ (codes ", " ++ (decimal links ++ (codes " links, path" ++ flat_map spaced (take (links + 1) list)))))

abbrev pub sent_text : Result (ℕ × ℕ) RouteRefusal → List ℕ → List ℕ
sent_text (Ok found) list = path_text found.0 found.1 list
sent_text (Err x) list = refusal_text (route_number x) (route_words x)

-- what is printed of an answer
abbrev pub reply_text : Reply ℕ → List ℕ
reply_text (Edited r) = edited_text r
reply_text (Settled r) = settled_text r
reply_text (Hopped r) = hopped_text r
reply_text (Sent r list) = sent_text r (vec_items list)

-- the line of a call and its answer
abbrev pub answer_line : List ℕ → Reply ℕ → List ℕ
answer_line call reply = call ++ (codes ": " ++ (reply_text reply ++ codes "\n"))

-- a line for each call that has an answer; `text` is what a call says
abbrev pub page : {T : Type 0} → (T → List ℕ) → List T → List (Reply ℕ) → List ℕ
page text calls replies = flat_map (λ x. answer_line (text x.0) x.1) (zip calls replies)
