use Rattle.std.proofs.Common.{rules, arith, refl, ◌-◌, ◌*◌, eqb, length, ◌∙◌}
use Rattle.std.proofs.lemmas.Iterator.{YieldsList-from_range}
use Rattle.std.proofs.lemmas.Iterator.Search.{all_from_yields_List}
use Rattle.sheets.specs.Reading.{bits_of, code_at}
use Rattle.sheets.proofs.Bytes.{length_bits}
use Rattle.sheet.proofs.CodesByIndex.{zeros_by_index}
use Rattle.sheet.proofs.sheet_body.SheetBody.is_filled_with_zeros.Goals as goal

pub returns : goal.returns
returns c =
    let u = bits_of c.args.self.now.bytes.now in
    let j = c.args.self.now.symbols in
    let n = 4 * length c.args.self.now.bytes.now - j in
    let l = length_bits c.args.self.now.bytes.now in
    let i = c.args.self.now.inside in
    record {
      value =
          all_from_yields_List (λ k. eqb (code_at u k) 0) _ _ c.all.result c.all.ensures.ran (YieldsList-from_range j (4 * length c.args.self.now.bytes.now) n refl refl)
          (λ x b q k. search rules) ∙ zeros_by_index u n j (omega arith);
    }
