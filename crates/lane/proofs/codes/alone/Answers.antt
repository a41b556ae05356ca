-- `codes::alone` meets its contract: each arm is a code whose rule the law of its kind completes. Assumes nothing.
use Rattle.code.specs.declared.codes.Register.TheVariants.{A, B}
use Rattle.code.specs.declared.codes.Index.TheVariants.{X, Y}
use Rattle.lane.proofs.Extended.{copied_to, copied_from, exchanging, up, down, rotating}
use Rattle.lane.proofs.codes.alone.Goals as goal

pub returns-in-33761 : goal.returns-in-33761
returns-in-33761 c = copied_to _ A X c.in-33761.is c.copy_to_index.ensures

pub returns-in-33769 : goal.returns-in-33769
returns-in-33769 c = copied_to _ A Y c.in-33769.is c.copy_to_index-in-33769.ensures

pub returns-in-35809 : goal.returns-in-35809
returns-in-35809 c = copied_to _ B X c.in-35809.is c.copy_to_index-in-35809.ensures

pub returns-in-35817 : goal.returns-in-35817
returns-in-35817 c = copied_to _ B Y c.in-35817.is c.copy_to_index-in-35817.ensures

pub returns-in-33764 : goal.returns-in-33764
returns-in-33764 c = copied_from _ A X c.in-33764.is c.copy_from_index.ensures

pub returns-in-33772 : goal.returns-in-33772
returns-in-33772 c = copied_from _ A Y c.in-33772.is c.copy_from_index-in-33772.ensures

pub returns-in-35812 : goal.returns-in-35812
returns-in-35812 c = copied_from _ B X c.in-35812.is c.copy_from_index-in-35812.ensures

pub returns-in-35820 : goal.returns-in-35820
returns-in-35820 c = copied_from _ B Y c.in-35820.is c.copy_from_index-in-35820.ensures

pub returns-in-33767 : goal.returns-in-33767
returns-in-33767 c = exchanging _ A X c.in-33767.is c.exchange.ensures

pub returns-in-33775 : goal.returns-in-33775
returns-in-33775 c = exchanging _ A Y c.in-33775.is c.exchange-in-33775.ensures

pub returns-in-35815 : goal.returns-in-35815
returns-in-35815 c = exchanging _ B X c.in-35815.is c.exchange-in-35815.ensures

pub returns-in-35823 : goal.returns-in-35823
returns-in-35823 c = exchanging _ B Y c.in-35823.is c.exchange-in-35823.ensures

pub returns-in-35824 : goal.returns-in-35824
returns-in-35824 c = up _ X c.in-35824.is (rw c.increment.ensures at c.step_index.ensures)

pub returns-in-35825 : goal.returns-in-35825
returns-in-35825 c = down _ X c.in-35825.is (rw c.decrement.ensures at c.step_index-in-35825.ensures)

pub returns-in-35832 : goal.returns-in-35832
returns-in-35832 c = up _ Y c.in-35832.is (rw c.increment-in-35832.ensures at c.step_index-in-35832.ensures)

pub returns-in-35833 : goal.returns-in-35833
returns-in-35833 c = down _ Y c.in-35833.is (rw c.decrement-in-35833.ensures at c.step_index-in-35833.ensures)

pub returns-in_ok-long_shift_of-in_default : goal.returns-in_ok-long_shift_of-in_default
returns-in_ok-long_shift_of-in_default c = rotating c.args.r _ c.args.word c.in_ok-long_shift_of-in_default.ensures c.long_rotate.ensures
