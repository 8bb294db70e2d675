use Rattle.families.specs.Family.{max_of}
use Rattle.route_writer.proofs.PromiseLaws.{front_told}
use Rattle.route_writer.proofs.encode_nlri_prefixes.Goals as goal

pub returns : goal.returns
returns c =
    let both =
    let a = c.args in
    front_told a.rows.now (max_of a.afi) a.form a.out.now _ _ c.encode_nlri_after.ensures.answer c.encode_nlri_after.ensures.out in
    record { answer = both.0; out = both.1 }
