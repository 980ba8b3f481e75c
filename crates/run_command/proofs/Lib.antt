mod Drilling
