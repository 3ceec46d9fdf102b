use Rattle.std.proofs.Common.{◌≡◌, ℕ, ◌+◌, ◌*◌, ◌≤◌, List, length, Result}
use Rattle.network.specs.declared.types.Link.{Link}
use Rattle.table.specs.Memory.{SameMemory}
use Rattle.link_text.specs.Left.{left}
use Rattle.link_list.specs.declared.types.Fault.{Fault}
use Rattle.link_list.specs.Loads.{Loads}
use Rattle.link_list.proofs.load.load.Given as goal

-- what a load from here on comes to, the whole load does
abbrev pub invariant-loop-reader : goal.invariant-loop-reader
invariant-loop-reader g l =
    SameMemory l.initial.table l.table ×
    (g.S.Store.roster l.store ≡ g.S.Store.roster l.initial.store) ×
    (g.S.EditableStore.limit l.store ≡ g.S.EditableStore.limit l.initial.store) ×
    (l.table.entries.now ≡ l.initial.table.entries.now) ×
    (41 * l.entered + length (left l.reader) ≤ length l.text) ×
    ((book' : List Link) (marks' : List ℕ) (r : Result ℕ Fault) →
    Loads (g.S.Store.roster l.initial.store) (g.S.EditableStore.limit l.initial.store) l.initial.table.entries.now book' marks' r l.entered (left l.reader) (g.S.Store.book l.store) l.table.marks.now →
    Loads (g.S.Store.roster l.initial.store) (g.S.EditableStore.limit l.initial.store) l.initial.table.entries.now book' marks' r 0 l.text (g.S.Store.book l.initial.store) l.initial.table.marks.now)

abbrev pub decreases-loop-reader : goal.decreases-loop-reader
decreases-loop-reader g l = length (left l.reader)
