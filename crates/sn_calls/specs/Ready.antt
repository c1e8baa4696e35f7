-- What holds between two rows.

-- rows of which nothing has to hold
abbrev pub Always : Type 0
Always = Unit {0}
