use Rattle.std.proofs.Common.{rules, arith, refl, ◌≡◌, ◌-◌, ◌∙◌}
use Rattle.std.specs.Option.{is_none}
use Rattle.std.proofs.lemmas.Iterator.{YieldsList-from_range}
use Rattle.std.proofs.lemmas.Iterator.Search.{any_from_yields_List}
use Rattle.sheets.specs.Reading.{bits_of, code_at}
use Rattle.sheets.proofs.Bytes.{length_bits}
use Rattle.sheet.specs.Reading.{symbol_if_coded}
use Rattle.sheet.proofs.CodesByIndex.{unknown_by_index}
use Rattle.sheet.proofs.sheet_body.SheetBody.has_unknown.Goals as goal

pub returns : goal.returns
returns c =
    let u = bits_of c.args.self.now.bytes.now in
    let n = c.args.self.now.symbols in
    let e : n - 0 ≡ n = omega arith in
    let l = length_bits c.args.self.now.bytes.now in
    let i = c.args.self.now.inside in
    record {
      value =
          any_from_yields_List (λ k. is_none (symbol_if_coded (code_at u k))) _ _ c.any.result c.any.ensures.ran (YieldsList-from_range 0 n n refl e)
          (λ x b q k. search rules) ∙ unknown_by_index u n 0 (omega arith);
    }
