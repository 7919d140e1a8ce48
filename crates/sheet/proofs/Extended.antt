-- The words of a row with one more symbol.
use Rattle.std.proofs.Common.{◌≡◌, ℕ, ◌+◌, ◌*◌, [], ◌∷◌, ◌++◌, ap, ap₂, arith}
use Rattle.covers.specs.declared.symbol.Symbol.{Symbol}
use Rattle.covers.specs.Symbols.{Symbols}
use Rattle.covers.specs.Words.{value_word, care_word}
use Rattle.rows.specs.declared.row_words.RowWords.{RowWords}
use Rattle.sheets.proofs.RowEnds.{value_word_push, care_word_push}
use Rattle.rows.specs.Memory.{words_of}

pub words_push : (start : Symbols) (s : Symbol) (row : RowWords) (v k : ℕ) → row ≡ words_of start → v ≡ row.value * 2 + value_word (s ∷ []) → k ≡ row.care * 2 + care_word (s ∷ []) →
    ◌≡◌ {A = RowWords} (record { value = v; care = k }) (words_of (start ++ (s ∷ [])))
words_push start s row v k e hv hk =
    let ev = ap (λ (w : RowWords). w.value) e in
    let ek = ap (λ (w : RowWords). w.care) e in
    let pv = value_word_push start s in
    let pk = care_word_push start s in
    let v_is : v ≡ value_word (start ++ (s ∷ [])) = omega arith in
    let k_is : k ≡ care_word (start ++ (s ∷ [])) = omega arith in
    ap₂ (λ (a b : ℕ). record { value = a; care = b }) v_is k_is
