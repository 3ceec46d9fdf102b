use Rattle.std.proofs.Common.{◌≡◌, ℕ, zero, suc, ◌*◌, ◌≤◌, false, ◌||◌, ltb, List, length, get_or, replicate, Ok, Err, vec_items, refl, ◌∙◌, subst, mul-le-mul, arith}
use Rattle.std.proofs.lemmas.Bool.Decides.{nat_tests}
use Rattle.network.specs.declared.types.Link.{Link}
use Rattle.legality.specs.Networks.{net_of}
use Rattle.listing.specs.declared.types.Row.{Row}
use Rattle.listing.specs.Rows.{RowsRight, pairs_from}
use Rattle.listing.specs.Listings.{refused, listed}
use Rattle.listing.proofs.Climbed.{own_roster}
use Rattle.listing.proofs.Fresh.{load_holds, enters_all}
use Rattle.listing.proofs.table_of.Goals as goal

zeros : (n j : ℕ) → ◌≡◌ {A = ℕ} (get_or (replicate n 0) j 0) 0
zeros zero j = refl
zeros (suc n) zero = refl
zeros (suc n) (suc j) = zeros n j

-- 1,152 entries and 24 marks are enough for 24 ASes
enough : (n : ℕ) → n ≤ 24 → (ltb 1152 (2 * n * n) || ltb 24 n) ≡ false
enough n h =
    let twice : 2 * n ≤ 48 = omega arith in
    let square : 2 * n * n ≤ 48 * 24 = mul-le-mul twice h in
    grind (arith, nat_tests)

rows_of : (ases given roster : List ℕ) (book : List Link) (rows : List Row) → roster ≡ ases → given ≡ ases → RowsRight (net_of roster book) (pairs_from given given) rows → RowsRight (net_of ases book) (pairs_from ases ases) rows
rows_of ases given roster book rows own same right =
    subst (λ xs. RowsRight (net_of ases book) (pairs_from xs xs) rows) same (subst (λ xs. RowsRight (net_of xs book) (pairs_from given given) rows) own right)

pub returns-in-Err : goal.returns-in-Err
returns-in-Err c =
    let named = c.args.named.now in
    let xs = vec_items named.ases in
    let own = own_roster xs c.as_slice-ases.result.now _ c.new-store.ensures.roster c.as_slice-ases.ensures.value named.few named.rising in
    refused _ c.in-Err.fault (enters_all xs _ c.args.text.now _ _ _ _ _ _ (Err c.in-Err.fault) c.in-Err.ensures.loads own c.new-store.ensures.limit c.new-store.ensures.book (enough (length xs) named.few)) refl

pub settle_all-requires-clause-holds : goal.settle_all-requires-clause-holds
settle_all-requires-clause-holds c =
    let named = c.args.named.now in
    let xs = vec_items named.ases in
    let e = c.in_default.ensures in
    let own = own_roster xs c.as_slice-ases.result.now _ c.new-store.ensures.roster c.as_slice-ases.ensures.value named.few named.rising in
    load_holds xs _ _ c.args.text.now _ _ _ _ _ _ _ (Ok c.in_default.field-0) e.loads own e.roster e.entries (enough (length xs) named.few) (zeros 24)

pub returns : goal.returns
returns c =
    let named = c.args.named.now in
    let xs = vec_items named.ases in
    let given = c.as_slice-ases.result.now in
    let e = c.in_default.ensures in
    let own = own_roster xs given _ c.new-store.ensures.roster c.as_slice-ases.ensures.value named.few named.rising in
    let rows = rows_of xs given _ _ (vec_items c.in_ok-rows.field-0) (e.roster ∙ own) c.as_slice-ases.ensures.value c.in_ok-rows.ensures in
    listed _ c.in_default.field-0 c.in_ok-rows.field-0 (enters_all xs _ c.args.text.now _ _ _ _ _ _ (Ok c.in_default.field-0) e.loads own c.new-store.ensures.limit c.new-store.ensures.book (enough (length xs) named.few)) rows refl
