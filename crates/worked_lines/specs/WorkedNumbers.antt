-- The numbers of the worked lines.
use Rattle.worked_lines.specs.declared.build.Numbers.{Numbers}

abbrev pub two_stations_numbers : Numbers
two_stations_numbers = record { track = 4; gap = 1; hoists = 1; degree = 1; max_period = 100; load = 2; unload = 2 }

abbrev pub one_bath_numbers : Numbers
one_bath_numbers = record { track = 6; gap = 2; hoists = 1; degree = 1; max_period = 100; load = 0; unload = 0 }

abbrev pub two_hoists_numbers : Numbers
two_hoists_numbers = record { track = 6; gap = 2; hoists = 2; degree = 1; max_period = 100; load = 0; unload = 0 }

abbrev pub rinse_twice_numbers : Numbers
rinse_twice_numbers = record { track = 3; gap = 1; hoists = 1; degree = 1; max_period = 100; load = 0; unload = 0 }

abbrev pub one_station_numbers : Numbers
one_station_numbers = record { track = 3; gap = 1; hoists = 1; degree = 1; max_period = 100; load = 2; unload = 2 }

abbrev pub thirteen_stages_numbers : Numbers
thirteen_stages_numbers = record { track = 44; gap = 4; hoists = 2; degree = 1; max_period = 3000; load = 60; unload = 30 }

abbrev pub far_tank_numbers : Numbers
far_tank_numbers = record { track = 6; gap = 2; hoists = 2; degree = 1; max_period = 100; load = 0; unload = 0 }

abbrev pub two_baths_numbers : Numbers
two_baths_numbers = record { track = 6; gap = 1; hoists = 1; degree = 2; max_period = 100; load = 0; unload = 0 }

abbrev pub slow_choice_numbers : Numbers
slow_choice_numbers = record { track = 6; gap = 2; hoists = 1; degree = 1; max_period = 50; load = 0; unload = 0 }
