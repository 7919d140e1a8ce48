-- What the rows of a ledger take, laid in the slots.
use Rattle.std.proofs.Common.{◌≡◌, ℕ, zero, suc, ◌-◌, ◌^◌, ◌<◌, ◌≤◌, Bool, true, false, cond, ltb, List, [], ◌∷◌, ◌++◌, map, length, get_or, replicate, None, Ok, Err, sym, refl, ap, ◌∙◌, ap₂, arith}
use Rattle.std.proofs.lemmas.Bool.{ltb-true}
use Rattle.std.proofs.lemmas.List.{length-append, length-map, length-replicate}
use Rattle.covers.specs.Symbols.{Symbols, list_takes}
use Rattle.covers.specs.Digits.{digits}
use Rattle.covers.specs.Words.{value_word, care_word, symbols}
use Rattle.covers.proofs.RowLengths.{Long}
use Rattle.covers.proofs.RowWords.{symbols_back, clean_word}
use Rattle.rows.specs.declared.refusal.Refusal.TheVariants.{NoSuchSlot}
use Rattle.device.specs.Answers as device
use Rattle.rows.specs.MadeRows.{row_made}
use Rattle.device.specs.States.{Slot, DeviceState, Lawful, some_slot_takes}
use Rattle.device.specs.SymbolLaws.{rows_in}
use Rattle.device.proofs.Says.{says_free}
use Rattle.device.proofs.SymbolTakes.{slots_by_symbols}
use Rattle.ledger.specs.Ledger.{Ledger, Laid, ledger_rows, mute_left, slot_with, slots_laid}
use Rattle.ledger.specs.Steps.{ask_step, full_slot_step, slot_step}
use Rattle.ledger.proofs.Rows.{ledger_rows_right}
use Rattle.filter.specs.Compared.{granted_only}

nothing_in : (n k : ℕ) → rows_in n (replicate k None) ≡ []
nothing_in n zero = refl
nothing_in n (suc k) = nothing_in n k

rows_then_nothing : (n k : ℕ) (rows : List Symbols) → Long n rows → rows_in n (map slot_with rows ++ replicate k None) ≡ rows
unfolding row_made
rows_then_nothing n k [] h = nothing_in n k
rows_then_nothing n k (r ∷ rows) h =
    ap₂ (λ (q : Symbols) (l : List Symbols). q ∷ l)
    (ap (λ v. symbols n v (care_word r)) (clean_word r) ∙ ap (λ m. symbols m (value_word r) (care_word r)) (sym h.0) ∙ symbols_back r) (rows_then_nothing n k rows h.1)

-- the rows in the slots are the ledger's
pub rows_laid : (b : Ledger) → rows_in b.width (slots_laid b) ≡ ledger_rows b
rows_laid b = rows_then_nothing b.width (b.slots - length (ledger_rows b)) (ledger_rows b) (ledger_rows_right b).of_width

-- and the slots take just its numbers
pub laid_takes : (b : Ledger) (s : DeviceState) → Lawful s → s.width ≡ b.width → Laid b s.slots → (x : ℕ) → x < 2 ^ b.width → some_slot_takes s.slots x ≡ b.numbers x
laid_takes b s lawful w p x hx =
    slots_by_symbols s.width s.slots x lawful.rows_within ∙
    ap₂ (λ n l. list_takes (rows_in n l) (digits n x)) w p ∙
    ap (λ l. list_takes l (digits b.width x)) (rows_laid b) ∙
    (ledger_rows_right b).exact x hx

-- a device with these rows answers as the ledger does
pub ask_by_ledger : (b : Ledger) (s : DeviceState) → Lawful s → s.width ≡ b.width → s.muted ≡ mute_left b → Laid b s.slots → b.held ≡ false → (x : ℕ) →
    device.ask_answer s x ≡ (ask_step x b).0
ask_by_ledger b s lawful w m p free x = go (ltb x (2 ^ b.width)) refl
  where
    go : (t : Bool) → ltb x (2 ^ b.width) ≡ t → device.ask_answer s x ≡ (ask_step x b).0
    go true e = rw (ap (λ n. ltb x (2 ^ n)) w ∙ e, e, free, says_free s x (m ∙ free), laid_takes b s lawful w p x (ltb-true x (2 ^ b.width) e))
    go false e = rw (ap (λ n. ltb x (2 ^ n)) w ∙ e, e, free)

pub length_laid : (b : Ledger) → length (ledger_rows b) ≤ b.slots → length (slots_laid b) ≡ b.slots
length_laid b h =
    let rows = ledger_rows b in
    let a = length-append (map slot_with rows) (replicate (b.slots - length rows) None) in
    let k = length-map rows slot_with in
    let c = length-replicate {A = Slot} (b.slots - length rows) None in
    omega arith

-- the report of a slot, by its refusal only
pub report_compared : (b : Ledger) (slot : ℕ) → granted_only (full_slot_step slot b).0 ≡ (slot_step slot b).0
report_compared b slot = go (ltb slot b.slots)
  where
    go : (t : Bool) → granted_only (cond t (Ok (get_or (slots_laid b) slot None)) (Err NoSuchSlot)) ≡ cond t (Ok tt) (Err NoSuchSlot)
    go true = refl
    go false = refl
