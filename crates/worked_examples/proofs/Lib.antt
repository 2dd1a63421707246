mod Fronts
mod ProfileRows
mod SweepRows
