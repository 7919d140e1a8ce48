use Rattle.std.proofs.Common.{◌≡◌, ℕ, ◌+◌, ◌-◌, ◌*◌, ◌^◌, ◌≤◌, List, [], ◌∷◌, ◌++◌, length, get_or, take, drop, sym, ap, ◌∙◌, arith, pow_mono}
use Rattle.std.specs.Option.{unwrap_or}
use Rattle.std.proofs.lemmas.List.{length-take-le, length-drop, take_more, get_or-drop}
use Rattle.covers.specs.declared.symbol.Symbol.{Symbol}
use Rattle.covers.specs.declared.symbol.Symbol.TheVariants.{Zero, Dash}
use Rattle.covers.specs.Words.{value_word, care_word}
use Rattle.covers.proofs.RowWords.{value_word_fits, care_word_fits}
use Rattle.rows.specs.declared.row_words.RowWords.{RowWords}
use Rattle.rows.specs.Memory.{words_of}
use Rattle.sheets.specs.Reading.{bits_of, code_at, symbols_of}
use Rattle.sheets.proofs.Bytes.{length_bits}
use Rattle.sheets.proofs.Bodies.{symbol_there, symbols_enough}
use Rattle.sheet.proofs.CodesByIndex.{symbol_or_dash}
use Rattle.sheet.proofs.sheet_body.SheetBody.row_at.Goals as goal

-- as many symbols as there are places lie from the first on
enough : (body : List ℕ) (first places : ℕ) → first + places ≤ 4 * length body → places ≤ length (drop first (symbols_of (bits_of body)))
enough body first places h =
    let l = length_bits body in
    let s = symbols_enough (bits_of body) (first + places) (omega arith) in
    let d = length-drop first (symbols_of (bits_of body)) in
    omega arith

pub extended-row-requires : goal.extended-row-requires
extended-row-requires c =
    let body = c.args.self.now.bytes.now in
    let k = c.loop-index.index - c.args.first in
    let all = drop c.args.first (symbols_of (bits_of body)) in
    let t = c.loop-index-test.true in
    let n = c.requires.narrow in
    let i = c.args.self.now.inside in
    let h = c.requires.inside in
    let m = enough body c.args.first c.args.places (omega arith) in
    let l : length (take k all) ≤ 31 = let e = length-take-le k all (omega arith) in omega arith in
    let p : 2 ^ length (take k all) ≤ 2147483648 = pow_mono {i = length (take k all)} {j = 31} l in
    let ev : c.loop-index.row.value ≡ value_word (take k all) = ap (λ (w : RowWords). w.value) c.loop-index.invariant in
    let ec : c.loop-index.row.care ≡ care_word (take k all) = ap (λ (w : RowWords). w.care) c.loop-index.invariant in
    let fv = value_word_fits (take k all) in
    let fc = care_word_fits (take k all) in
    record { value_room = omega arith; care_room = omega arith }

pub loop-index-preserved : goal.loop-index-preserved
loop-index-preserved c =
    let body = c.args.self.now.bytes.now in
    let u = bits_of body in
    let i = c.loop-index.index in
    let k = i - c.args.first in
    let all = drop c.args.first (symbols_of u) in
    let t = c.loop-index-test.true in
    let l = length_bits body in
    let b = c.args.self.now.inside in
    let h = c.requires.inside in
    let m = enough body c.args.first c.args.places (omega arith) in
    let next : i + 1 - c.args.first ≡ k + 1 = omega arith in
    let place : c.args.first + k ≡ i = omega arith in
    let there : c.unwrap_or.result ≡ get_or all k Zero =
    c.unwrap_or.ensures ∙ ap (λ o. unwrap_or o Dash) c.symbol_at.ensures.value ∙ symbol_or_dash (code_at u i) ∙
    sym (get_or-drop c.args.first (symbols_of u) k Zero ∙ ap (λ (x : ℕ). get_or (symbols_of u) x Zero) place ∙ symbol_there u i (omega arith)) in
    c.extended-row.ensures.words (take k all) c.loop-index.invariant ∙
    ap words_of (ap (λ (s : Symbol). take k all ++ (s ∷ [])) there ∙ sym (take_more all k Zero (omega arith)) ∙ ap (λ (x : ℕ). take x all) (sym next))
