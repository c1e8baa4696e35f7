pub mod DrillLine
pub mod FirstBad
pub mod GoodLine
pub mod Loops
pub mod Passing
pub mod RenderLine
pub mod ServeLine
