-- Frames and orders that stand in lists, by number.
use Rattle.std.specs.Prelude.{ℕ, false, None, List, map, get_or}
use Rattle.tick_machine.specs.declared.frame.Frame.{Frame}
use Rattle.tick_machine.specs.declared.order.Order.{Order}
use Rattle.tick_machine.specs.declared.order.Go.TheVariants.{Stay}
use Rattle.tick_machine.specs.Scene.{Scene, Command, scene_of, command_of}

-- what stands for a frame or an order past the end
abbrev pub no_scene : Scene
no_scene = record { at = λ h. 0; carry = λ h. None; hold = λ i. None; next = 0 }

abbrev pub no_command : Command
no_command = record { go = λ h. Stay; begin = λ h. None; off = false; put = false }

abbrev pub scenes : List Frame → ℕ → Scene
scenes frames i = get_or (map scene_of frames) i no_scene

abbrev pub commands : List Order → ℕ → Command
commands orders i = get_or (map command_of orders) i no_command
