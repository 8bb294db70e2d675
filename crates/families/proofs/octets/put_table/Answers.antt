use mathlib.Core.List.{◌++◌}
use Rattle.families.specs.Private.{sixteen}
use Rattle.families.proofs.CopyLaws.{copied_on}
use Rattle.families.proofs.octets.put_table.Goals as goal

pub returns : goal.returns
returns c =
    let a = c.args in
    let on = copied_on a.table.now a.out.now in
    let to_16 = on _ _ (sixteen 0) (sixteen 8) c.put_sixteen.ensures c.put_sixteen-2.ensures in
    let to_24 = on _ _ (sixteen 0 ++ sixteen 8) (sixteen 16) (to_16) c.put_sixteen-3.ensures in
    let to_32 = on _ _ (sixteen 0 ++ sixteen 8 ++ sixteen 16) (sixteen 24) (to_24) c.put_sixteen-4.ensures in
    let to_40 = on _ _ (sixteen 0 ++ sixteen 8 ++ sixteen 16 ++ sixteen 24) (sixteen 32) (to_32) c.put_sixteen-5.ensures in
    let to_48 = on _ _ (sixteen 0 ++ sixteen 8 ++ sixteen 16 ++ sixteen 24 ++ sixteen 32) (sixteen 40) (to_40) c.put_sixteen-6.ensures in
    let to_56 = on _ _ (sixteen 0 ++ sixteen 8 ++ sixteen 16 ++ sixteen 24 ++ sixteen 32 ++ sixteen 40) (sixteen 48) (to_48) c.put_sixteen-7.ensures in
    let to_64 = on _ _ (sixteen 0 ++ sixteen 8 ++ sixteen 16 ++ sixteen 24 ++ sixteen 32 ++ sixteen 40 ++ sixteen 48) (sixteen 56) (to_56) c.put_sixteen-8.ensures in
    let to_72 = on _ _ (sixteen 0 ++ sixteen 8 ++ sixteen 16 ++ sixteen 24 ++ sixteen 32 ++ sixteen 40 ++ sixteen 48 ++ sixteen 56) (sixteen 64) (to_64) c.put_sixteen-9.ensures in
    let to_80 = on _ _ (sixteen 0 ++ sixteen 8 ++ sixteen 16 ++ sixteen 24 ++ sixteen 32 ++ sixteen 40 ++ sixteen 48 ++ sixteen 56 ++ sixteen 64) (sixteen 72) (to_72) c.put_sixteen-10.ensures in
    let to_88 = on _ _ (sixteen 0 ++ sixteen 8 ++ sixteen 16 ++ sixteen 24 ++ sixteen 32 ++ sixteen 40 ++ sixteen 48 ++ sixteen 56 ++ sixteen 64 ++ sixteen 72) (sixteen 80) (to_80) c.put_sixteen-11.ensures in
    let to_96 = on _ _ (sixteen 0 ++ sixteen 8 ++ sixteen 16 ++ sixteen 24 ++ sixteen 32 ++ sixteen 40 ++ sixteen 48 ++ sixteen 56 ++ sixteen 64 ++ sixteen 72 ++ sixteen 80) (sixteen 88) (to_88) c.put_sixteen-12.ensures in
    let to_104 = on _ _ (sixteen 0 ++ sixteen 8 ++ sixteen 16 ++ sixteen 24 ++ sixteen 32 ++ sixteen 40 ++ sixteen 48 ++ sixteen 56 ++ sixteen 64 ++ sixteen 72 ++ sixteen 80 ++ sixteen 88) (sixteen 96) (to_96) c.put_sixteen-13.ensures in
    let to_112 = on _ _ (sixteen 0 ++ sixteen 8 ++ sixteen 16 ++ sixteen 24 ++ sixteen 32 ++ sixteen 40 ++ sixteen 48 ++ sixteen 56 ++ sixteen 64 ++ sixteen 72 ++ sixteen 80 ++ sixteen 88 ++ sixteen 96) (sixteen 104) (to_104) c.put_sixteen-14.ensures in
    let to_120 = on _ _ (sixteen 0 ++ sixteen 8 ++ sixteen 16 ++ sixteen 24 ++ sixteen 32 ++ sixteen 40 ++ sixteen 48 ++ sixteen 56 ++ sixteen 64 ++ sixteen 72 ++ sixteen 80 ++ sixteen 88 ++ sixteen 96 ++ sixteen 104) (sixteen 112) (to_112) c.put_sixteen-15.ensures in
    on _ _ (sixteen 0 ++ sixteen 8 ++ sixteen 16 ++ sixteen 24 ++ sixteen 32 ++ sixteen 40 ++ sixteen 48 ++ sixteen 56 ++ sixteen 64 ++ sixteen 72 ++ sixteen 80 ++ sixteen 88 ++ sixteen 96 ++ sixteen 104 ++ sixteen 112) (sixteen 120) (to_120) c.put_sixteen-16.ensures
