-- What a work of jobs that may always run asks.

abbrev pub Always : Type 0
Always = Unit {0}
