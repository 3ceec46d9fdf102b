-- What a reader has still to read. Assumes nothing.
use Rattle.std.specs.Prelude.{◌≡◌, ℕ, List, drop}
use Rattle.link_text.specs.declared.reader.Reader.{Reader}

-- the bytes that are left
abbrev pub left : Reader → List ℕ
left r = drop r.position r.text.now

-- q is r moved on by n bytes, or to the end of the text where fewer are left
abbrev pub Moved : ℕ → Reader → Reader → Type 0
Moved n r q = (q.text.now ≡ r.text.now) × (left q ≡ drop n (left r))
