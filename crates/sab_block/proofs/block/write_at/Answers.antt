use Rattle.std.proofs.Common.{◌≡◌, arith}
use Rattle.sab_block.proofs.ElementBytes.{put-written}
use Rattle.sab_block.proofs.block.write_at.Goals as goal

pub returns-in-1 : goal.returns-in-1
returns-in-1 c = put-written _ _ _ _ _ _ c.in-1.is c.requires.inside c.write_uint.ensures

pub returns-in-2 : goal.returns-in-2
returns-in-2 c = put-written _ _ _ _ _ _ c.in-2.is c.requires.inside c.write_u16.ensures

pub returns-in-4 : goal.returns-in-4
returns-in-4 c = put-written _ _ _ _ _ _ c.in-4.is c.requires.inside c.write_u32.ensures

pub returns-in_default : goal.returns-in_default
returns-in_default c =
    let eight : c.args.size ≡ 8 = omega arith in
    put-written _ _ _ _ _ _ eight c.requires.inside c.write_u64.ensures
